pub mod Toc
