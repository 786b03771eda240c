mod TextLemmas
mod ReadLemmas
mod FlushLemmas
mod TurnLemmas
mod ResumeLemmas
mod MarkedLemmas
mod PutLemmas
