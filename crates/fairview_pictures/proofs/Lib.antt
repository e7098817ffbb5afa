pub mod TraceLemmas
pub mod GanttLemmas
