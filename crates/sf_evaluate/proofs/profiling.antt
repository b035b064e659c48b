pub mod ProfilingLemmas
