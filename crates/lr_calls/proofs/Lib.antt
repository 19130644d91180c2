mod Forgetting
mod SortedCalls
mod Tables
