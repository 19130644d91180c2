mod EscapeLemmas
mod LineLemmas
mod ReadingLemmas
