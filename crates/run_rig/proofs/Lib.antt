pub mod FlusherOver
