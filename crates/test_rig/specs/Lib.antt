pub mod NotedJobs
pub mod Tables
