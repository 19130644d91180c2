mod MovedLemmas
