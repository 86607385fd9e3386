pub mod WatchLaws
pub mod CodeLaws
pub mod DoingLaws
pub mod CourseLaws
pub mod StepLaws
