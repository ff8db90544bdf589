-- Laws of bounds from mixing ratios.
pub mod RatioLaws
pub mod BoundsLaws
pub mod ConsistencyLaws
pub mod ExampleLaws
