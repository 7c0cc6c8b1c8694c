mod EvaluatingLemmas
mod ReadingLemmas
mod WordLemmas
