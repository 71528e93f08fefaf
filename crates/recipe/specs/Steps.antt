-- How an iteration goes from record to record: a step gives the place where it stands, and goes on to the next.
-- Assumes nothing.
use Rattle.std.specs.Prelude.{ℕ, ◌+◌, ◌-◌, ◌≡◌, ◌≤◌, ◌<◌, length, Option, None, Some, get_or}
use Rattle.std.specs.Iterator.{Count, at_most}
use Rattle.recipe.specs.declared.Records.{Records}
use Rattle.recipe.specs.Records.{record_length}

-- a step fits the machine's numbers
abbrev pub StepFits : Records → Type 0
StepFits a = a.source.now.width ≤ 65536

-- what one step gives, and where the iteration stands then
abbrev pub StepsTo : Records → Option ℕ → Records → Type 0
StepsTo a None b = (length a.source.now.bytes.now ≤ a.at) × (b ≡ a)
StepsTo a (Some p) b = (p ≡ a.at) × (p < length a.source.now.bytes.now) × (b.at ≡ p + record_length a.source.now.width (get_or a.source.now.bytes.now p 0)) × (b.source ≡ a.source)

-- each step goes on by one byte at least
abbrev pub bytes_left : Records → Count
bytes_left a = at_most (length a.source.now.bytes.now - a.at)
