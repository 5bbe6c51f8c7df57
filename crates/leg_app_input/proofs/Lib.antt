-- Words and places in texts
mod SplitLemmas
