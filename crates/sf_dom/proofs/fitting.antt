pub mod NextFitting
