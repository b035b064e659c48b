pub mod SizeLaws
pub mod ValueLaws
