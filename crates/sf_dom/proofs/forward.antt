pub mod ForwardLemmas
