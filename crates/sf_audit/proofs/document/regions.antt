pub mod RegionDocuments
