pub mod ExactExplorations
