pub mod NewThieves
