-- How many new records may come between two fetches. The paper presumes fewer than 64,000. The theorem holds with 64,513 of them; with 64,514, and
-- 1,023 held, a number is in use again while its bit still stands for the record that had it before.
use Rattle.theorems_fetch.specs.History.{tell, take, propose, KeptBelow}

pub record Limit : Type 0 where
  pub holds : KeptBelow 64514 tell take propose
  pub fails : KeptBelow 64515 tell take propose → ⊥
