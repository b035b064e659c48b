pub mod ZeroErrorLemmas
