-- How a refusal is printed. Assumes nothing.
use Rattle.std.specs.Prelude.{ℕ, List, ◌++◌, codes, decimal}
use Rattle.records.specs.declared.Refused.{Refused}
use Rattle.records.specs.Answers.{number_of}

-- `refused NUMBER at PLACE`
abbrev pub refused_text : Refused → List ℕ
refused_text r = codes "refused " ++ (decimal (number_of r.why) ++ (codes " at " ++ decimal r.place))
