pub mod StepsLemmas
