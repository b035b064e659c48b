pub mod CautionLemmas
