mod FileLines
pub mod StepLines
pub mod LinesRead
pub mod OneReading
pub mod Refusing
pub mod OneRun
mod OneFault
mod Alike
