pub mod Drums
pub mod Metal
pub mod Eight08
pub mod Block
