pub mod Forms
pub mod Reading
pub mod Small
