-- Rows that are stored as something else, as bytes: a step reads the row, and puts back what it made of it. If the step on rows is local, so is that on what they are stored as. Assumes nothing.
use Rattle.std.specs.Prelude.{◌≡◌}
use Rattle.std.proofs.Common.{ap}
use Rattle.relisting.specs.Access.{Access, Local}
use Rattle.relisting.specs.Steps.{storing}

module _ {R S P K X : Type 0} (F : Access R S P K) (read : X → R) where
  abbrev pub stored : Access X S P K
  stored = record {
    key = λ x. F.key (read x);
    get = F.get;
    reads = F.reads;
    writes = F.writes;
    writes? = F.writes?;
    written_read = λ x. F.written_read (read x);
  }

  -- what is put back has the key that the row had
  pub storing_local : (put : R → X → X) → ((r : R) (x : X) → F.key r ≡ F.key (read x) → F.key (read (put r x)) ≡ F.key (read x))
      → (f : R → S → R × S) → Local F f → Local stored (storing read put f)
  storing_local put keeps f L = record {
    row = λ x s t a. ap (λ (r : R). put r x) (L.row (read x) s t a);
    put = λ x s t a p w. L.put (read x) s t a p w;
    keep = λ x s p n. L.keep (read x) s p n;
    same = λ x s. keeps (f (read x) s).0 x (L.same (read x) s);
  }
