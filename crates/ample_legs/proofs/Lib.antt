pub mod RouteLaws
pub mod PlacesLaws
