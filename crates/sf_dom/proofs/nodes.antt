pub mod KeptNodes
