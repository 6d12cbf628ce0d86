-- Small things that all rooms use: tests of flags and numbers, the phase by its lines, what holds of each line of a
-- scenario.
pub mod Impossible
pub mod Tests
pub mod PhaseLines
pub mod EachLine
pub mod PlanWays
pub mod StoryWays
