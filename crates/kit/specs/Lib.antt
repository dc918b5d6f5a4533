pub mod Kit
