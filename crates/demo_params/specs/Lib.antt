pub mod DemoTexts
pub mod Examples
