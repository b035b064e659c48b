pub mod RepeatLemmas
