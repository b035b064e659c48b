pub mod Common
pub mod NeverSyntax
