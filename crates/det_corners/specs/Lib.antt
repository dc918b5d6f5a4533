pub mod DetRs
