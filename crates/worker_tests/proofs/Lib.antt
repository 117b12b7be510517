mod AllTaken
mod ClosedLemmas
