mod Bounded
mod NumberLemmas
mod Order
