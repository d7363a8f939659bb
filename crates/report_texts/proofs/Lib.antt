pub mod EndTexts
pub mod Lines
pub mod OneLine
pub mod Parts
