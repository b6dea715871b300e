-- DEMAND 3 IS NEITHER EMPTY NOR TOO WEAK: a proper relisting, with what its run leaves; and a frame for which the claim would be false if overflow rows could move. Assumes nothing.
use Rattle.std.proofs.Common.{ℕ, zero, suc, ◌<◌, ◌≡◌, refl, sym, ap, ◌∙◌, List, [], ◌∷◌, ◌++◌, arith, length, get_or}
use Rattle.std.specs.Float.Ieee.{lt, is_nan, of_bits, to_bits}
use Rattle.std.specs.Float.Ieee as ieee
use Rattle.little_endian.specs.Bytes.{le16, le32, is_finite}
use Rattle.records.specs.Answers.{accepted, first_of, from}
use Rattle.records.specs.Fields.{limit16, limit32, code, finite, bound, ordered, cap, colour_from, run, head_fields, point_fields}
use Rattle.records.specs.Fields.{scalar_codes, scalar_floats, scalar_fields, elastic_codes, corotational_fields, neo_hookean_fields, fields}
use Rattle.records.specs.Records.{is_pair, is_due, shape, record_tests, records_tests, end_of, records, flatten}
use Rattle.clash.specs.Clash.{count_of, key_of, any_of, named_by, clashes, clash_tests}
use Rattle.frame.specs.Frames.{head, points, rows}
use Rattle.relisting.specs.Relist.{Pairing}
use Rattle.acceptance.specs.Whole.{row, colour_of}
use Rattle.frame.specs.Check.{extra, frame_tests, check_of}
use Rattle.real.specs.Real as real
use Rattle.vector.specs.Vector as v
use Rattle.places.specs.Places.{rate_of}
use Rattle.scalar.specs.Row as s
use Rattle.vector.specs.Matrix.{transpose, mul_vec}
use Rattle.strain.specs.Parts as parts
use Rattle.strain.specs.Six.{dot6}
use Rattle.strain.specs.Matrix as six
use Rattle.cell.specs.Strain.{strain_tensor, strain_rows_of, outer_sum}
use Rattle.cell.specs.Cell.{strain_rates, local_velocities, volume_losses, volume_loss}
use Rattle.corotational.specs.Row as coro
use Rattle.corotational.specs.Corotational as co
use Rattle.rows.specs.Row as row-rules
use Rattle.rows.specs.Row.{names_of, holds_of}
use Rattle.rows.specs.Step as step
use Rattle.rows.specs.Step.{solve_of}
use Rattle.floats.specs.Fields.{vec3_at, four_at, mat3_at, quat_at, masses_at, ids_at, floats_at, put_vec3, put_floats}
use Rattle.stored.specs.Read.{row_of, constraint_of, scalar_of, spring_at, response_at, corotational_of, cell_of, pose_of, compliance_of}
use Rattle.stored.specs.Read.{impulses_of, springs_of, volume_of}
use Rattle.stored.specs.Put.{put_solve, solve_constraint, put_impulses}
use Rattle.stored.specs.Points.{velocity, lose}
use Rattle.stored.specs.Run.{swept, leaves}
use Rattle.demand.specs.Relisted.{Relisting}
use Rattle.demand.specs.Demand3.{RunsAlike}
use Rattle.demand.specs.Worked.{r0, r1, r2, r3, A₀, B₀, turn, s0, s1, A₁, B₁, point_of, half, quarter, three_quarters, seven_eighths}
use Rattle.demand.proofs.Laid.{ran}
use Rattle.demand.proofs.Alike.{demand_3}

-- check's answer, computed
accepted_both : (check_of A₀ ≡ accepted) × (check_of A₁ ≡ accepted)
unfolding check_of frame_tests extra record_tests records_tests end_of shape is_due is_pair fields head_fields point_fields scalar_fields scalar_codes scalar_floats elastic_codes corotational_fields neo_hookean_fields limit16 limit32 code finite bound ordered cap colour_from run clash_tests clashes key_of count_of any_of named_by first_of from le16 le32 is_finite is_nan lt of_bits flatten
accepted_both = (refl, refl)

-- what the sweeps leave in the points of A₀, computed: each row has moved the points that it names
swept₀ : (swept A₀).1 ≡ point_of seven_eighths ∷ point_of half ∷ point_of three_quarters ∷ point_of seven_eighths ∷ []
unfolding swept records end_of flatten le16 le32 step.solve solve_of s.solve row_of constraint_of scalar_of spring_at response_at four_at vec3_at masses_at ids_at holds_of row-rules.key_of names_of put_solve solve_constraint velocity lose put_vec3 v.sub v.scale v.dot v.zero_vector s.total_of s.sought_of rate_of s.losses real.clamp is_nan to_bits of_bits ieee.of_fields ieee.lt ieee.le ieee.eq ieee.add ieee.sub ieee.neg ieee.mul ieee.div ieee.sum ieee.round ieee.units ieee.odd ieee.span ieee.climb ieee.size coro.solve co.solve_corotational co.solve_rows co.strain_step co.residual strain_rates local_velocities co.volume_step co.applied volume_losses volume_loss strain_tensor strain_rows_of outer_sum transpose mul_vec parts.add parts.sub parts.scale parts.component_mul dot6 six.mat_vec six.row v.add corotational_of cell_of pose_of impulses_of compliance_of springs_of volume_of mat3_at quat_at floats_at put_impulses put_floats
swept₀ = refl

-- of A₁, and of the same frame with its rows exchanged
swept₁ : ((swept A₁).1 ≡ point_of quarter ∷ point_of half ∷ point_of quarter ∷ []) × ((swept B₁).1 ≡ point_of quarter ∷ point_of quarter ∷ point_of half ∷ [])
unfolding swept records end_of flatten le16 le32 step.solve solve_of s.solve row_of constraint_of scalar_of spring_at response_at four_at vec3_at masses_at ids_at holds_of row-rules.key_of names_of put_solve solve_constraint velocity lose put_vec3 v.sub v.scale v.dot v.zero_vector s.total_of s.sought_of rate_of s.losses real.clamp is_nan to_bits of_bits ieee.of_fields ieee.lt ieee.le ieee.eq ieee.add ieee.sub ieee.neg ieee.mul ieee.div ieee.sum ieee.round ieee.units ieee.odd ieee.span ieee.climb ieee.size
swept₁ = (refl, refl)

-- ---- not empty

four : (X : ℕ → Type 0) → X 0 → X 1 → X 2 → X 3 → (n : ℕ) → n < 4 → X n
four X a b c d zero h = a
four X a b c d (suc zero) h = b
four X a b c d (suc (suc zero)) h = c
four X a b c d (suc (suc (suc zero))) h = d
four X a b c d (suc (suc (suc (suc n)))) h = absurd (omega arith)

B₀-relisted : Relisting A₀ B₀ (r1 ∷ r0 ∷ r2 ∷ r3 ∷ []) turn turn
unfolding records end_of flatten le16 le32
B₀-relisted = record {
  made = refl;
  as_many = refl;
  same_colour = four _ refl refl refl refl;
  one_to_one = record {
    there = four _ (omega arith) (omega arith) (omega arith) (omega arith);
    home = four _ (omega arith) (omega arith) (omega arith) (omega arith);
    τσ = four _ refl refl refl refl;
    στ = four _ refl refl refl refl;
  };
  same_bytes = four _ refl refl refl refl;
  overflow_own = four _ (λ e. absurd (omega arith)) (λ e. absurd (omega arith)) (λ e. refl) (λ e. refl);
}

-- another frame than A₀: the first row is longer
pub proper₀ : A₀ ≡ B₀ → ⊥
unfolding flatten
proper₀ e = let z : ◌≡◌ {A = ℕ} 178 102 = ap (λ (l : List ℕ). get_or l 146 0) e in omega arith

pub alike₀ : RunsAlike A₀ B₀ turn
alike₀ = demand_3 A₀ B₀ (r1 ∷ r0 ∷ r2 ∷ r3 ∷ []) turn turn accepted_both.0 B₀-relisted

-- by the theorem and the run of A₀: the points of B₀ after its run
pub points₀ : points (leaves B₀) ≡ point_of seven_eighths ∷ point_of half ∷ point_of three_quarters ∷ point_of seven_eighths ∷ []
points₀ = sym alike₀.same_points ∙ (ran A₀ accepted_both.0).its_points ∙ swept₀

-- ---- sharp: were the overflow rows free to move, the claim would be false

two : (X : ℕ → Type 0) → X 0 → X 1 → (n : ℕ) → n < 2 → X n
two X a b zero h = a
two X a b (suc zero) h = b
two X a b (suc (suc n)) h = absurd (omega arith)

-- all that Relisting asks but for `overflow_own`
abbrev Unbound : Type 0
Unbound =
    (A B : List ℕ) (bs : List (List ℕ)) (σ τ : ℕ → ℕ) → check_of A ≡ accepted
    → B ≡ head A ++ (flatten (points A) ++ flatten bs)
    → length bs ≡ length (rows A)
    → ((n : ℕ) → n < length (rows A) → colour_of bs n ≡ colour_of (rows A) n)
    → Pairing σ τ (length (rows A))
    → ((n : ℕ) → n < length (rows A) → row bs (σ n) ≡ row (rows A) n)
    → RunsAlike A B σ

pub sharp : Unbound → ⊥
unfolding records end_of flatten le16 le32
sharp f =
    let r = f A₁ B₁ (s1 ∷ s0 ∷ []) turn turn accepted_both.1 refl refl (two _ refl refl)
    (record { there = two _ (omega arith) (omega arith); home = two _ (omega arith) (omega arith); τσ = two _ refl refl; στ = two _ refl refl }) (two _ refl refl) in
    let e = sym ((ran A₁ accepted_both.1).its_points ∙ swept₁.0) ∙ r.same_points ∙ ((ran B₁ r.accepted).its_points ∙ swept₁.1) in
    let z : ◌≡◌ {A = ℕ} 63 62 = ap (λ (l : List (List ℕ)). get_or (get_or l 1 []) 21 0) e in
    omega arith
