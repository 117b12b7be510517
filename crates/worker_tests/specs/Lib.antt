pub mod OneClosed
