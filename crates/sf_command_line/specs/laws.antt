pub mod CommandLineLaws
pub mod OptionsLaws
pub mod SubcommandLaws
