-- No two outcomes fit a public function's contract.
pub mod OneOutcome
