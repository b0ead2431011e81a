-- In order: in ours cuts and staging do not show, and what rests on that; the theorems on concrete runs.
pub mod CutsDoNotShowHolds
pub mod Instances
