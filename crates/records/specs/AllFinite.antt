-- Whether floats one after another are all finite, as one answer for all of them: what the quick test of a run cites. No rule is made with it. Assumes nothing.
use Rattle.std.specs.Prelude.{ℕ, zero, suc, ◌+◌, Bool, true, ◌&&◌, List}
use Rattle.little_endian.specs.Bytes.{f32_at, is_finite}

-- n floats, the first at byte k
unfoldable pub all_finite : List ℕ → ℕ → ℕ → Bool
all_finite b k zero = true
all_finite b k (suc n) = is_finite (f32_at b k) && all_finite b (k + 4) n
