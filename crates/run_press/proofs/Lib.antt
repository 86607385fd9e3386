pub mod StepsBehind
