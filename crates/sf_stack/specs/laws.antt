pub mod FiltersLaws
pub mod TextLaws
