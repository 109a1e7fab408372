pub mod HeadLaws
pub mod BoundsLaws
pub mod StepLaws
pub mod WalkLaws
