pub mod RegionLines
