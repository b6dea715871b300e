-- The update of a neo-Hookean row is made of its parts: where the block is kept it is not put, where it is renewed it is. Assumes nothing.
use Rattle.std.proofs.Common.{◌≡◌, refl, ap, ◌∙◌, ℕ, Bool, true, false, List, Float}
use Rattle.places.specs.Places.{Holds}
use Rattle.records.specs.Layout as at
use Rattle.cell.specs.Cell.{is_strained}
use Rattle.neo_hookean.specs.NeoHookean.{renewed, update_block}
use Rattle.neo_hookean.specs.Row.{update}
use Rattle.stored.specs.Read.{cell_of, material_of, stiffness_of, neo_hookean_of}
use Rattle.stored.specs.Put.{put_flag, put_renewed, put_neo_hookean}
use Rattle.neo_hookean_record.specs.Parts.{is_kept, update_anew, block_anew, put_update}
use Rattle.neo_hookean_record.specs.declared.Update.{Update}

module _ (least : Float) (held : Holds) (b : List ℕ) where
  abbrev u : Update
  u = update_anew held b

  abbrev whole : List ℕ
  whole =
      let r = update (neo_hookean_of b) held in
      put_flag (put_neo_hookean r b) at.row_strained (is_strained r.pose.strain least)

  put_is : put_update u least b ≡ whole
  unfolding put_update put_neo_hookean update update_block renewed neo_hookean_of cell_of material_of stiffness_of put_renewed update_anew block_anew
  put_is = by_cases (is_kept u.pose.strain b) refl
    where
      by_cases : (t : Bool) → is_kept u.pose.strain b ≡ t → put_update u least b ≡ whole
      by_cases true h = rw h refl
      by_cases false h = rw h refl

  -- the same of what the code finds
  pub updated_is : {x : Update} {c : List ℕ} → x ≡ update_anew held b → c ≡ put_update x least b → c ≡ whole
  updated_is found put = put ∙ ap (λ (x : Update). put_update x least b) found ∙ put_is
