pub mod OtherLemmas
