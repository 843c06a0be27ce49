-- Entries and their lists, from what was read of them.
use mathlib.Core.Path.{◌≡◌, refl}
use mathlib.Core.Bool.{Bool, true, false}
use mathlib.Core.List.{List, [], ◌∷◌}
use Prim.Native.Nat.{ℕ, ◌+◌, ◌*◌, ◌≤◌}
use native.Mathlib.Omega.{arith}
use Rattle.x691.specs.Bits.{bit_of}
use Rattle.atn.specs.Format.{Fmt, lack, many}
use Rattle.atn.specs.Reading.{Rec, rec, times, flags, read}
use Rattle.atn.specs.Tags as tag
use Rattle.cursor.specs.declared.place.Cursor.{Cursor}
use Rattle.cursor.specs.declared.place.Got.{Got}
use Rattle.cursor.specs.Place.{stopped, Takes}
use Rattle.cursor.specs.Formats.{Times}
use Rattle.field_ranges.specs.Rows as rows
use Rattle.field_ranges.specs.Ends.{lowest, highest}
use Rattle.character_strings.specs.Texts.{Sized}
use Rattle.ranged_numbers.specs.Numbers.{Ranged}
use Rattle.cursor.proofs.FormatLaws.{all_read, takes_plain, takes_refuse, fields_must, fields_last}
use Rattle.records.specs.Told.{Told}
use Rattle.runs.specs.declared.At.{At}
use Rattle.told_fields.specs.Does.{Does, InPlace}
use Rattle.cm_applications.specs.Applications.{entry_of, list_of}
use Rattle.told_fields.proofs.DoesLaws.{does_within, does_as, does_then, behind}
use Rattle.told_fields.proofs.ListLaws.{in_place, times_at_end, times-stopped}

---------------------------------------------------------------- entries

-- the record of an entry's place, and its two numbers
module _ {t i m : ℕ} {s : List ℕ} {a : At} {x y : Got ℕ} {w w' : List ℕ} (qualifier : Ranged rows.ae_qualifier s a.c x) (version : Ranged rows.ap_version s x.c y)
    (told : Told 3 w w' a.n m (rec t 0 i 0 a.c.at ∷ rec tag.ae_qualifier 0 x.v 0 a.c.at ∷ rec tag.ap_version 0 y.v 0 x.c.at ∷ [])) where
  abbrev entry_recs : ℕ → List Rec
  entry_recs n = rec t n i 0 a.c.at ∷ rec tag.ae_qualifier n x.v 0 a.c.at ∷ rec tag.ap_version n y.v 0 x.c.at ∷ []

  pub entry-plain : {v : Bool} → v ≡ false → Does 3 0 (InPlace (entry_of v t) i s) a (record { n = m; c = y.c }) w w'
  unfolding lowest highest flags all_read
  entry-plain e = rw e (record { recs = entry_recs; reads = in_place (takes_plain refl refl (fields_must (qualifier.number tag.ae_qualifier) (fields_last (version.number tag.ap_version)))); told = told })

  -- the address is not supplied
  pub entry-addressed : {v : Bool} {z : At} → v ≡ true → z ≡ record { n = m; c = stopped y.c 6 0 } → Does 3 0 (InPlace (entry_of v t) i s) a z w w'
  unfolding lowest highest flags all_read
  entry-addressed e q =
      rw (e, q) (record {
        recs = entry_recs;
        reads = in_place (takes_plain refl refl (fields_must (qualifier.number tag.ae_qualifier) (fields_must (version.number tag.ap_version) (fields_last (takes_refuse {T = λ n. []} lack 0 (λ z. omega arith) refl)))));
        told = told;
      })

---------------------------------------------------------------- lists

module _ {f : Fmt} {i : ℕ} {s : List ℕ} {a : At} where
  pub entries-more : {m z : At} {w w₁ w₂ : List ℕ} → Does (i * 3) 0 (Times f 1 i s) a m w w₁ → Does 3 0 (InPlace f (i + 1) s) m z w₁ w₂ → Does ((i + 1) * 3) 0 (Times f 1 (i + 1) s) a z w w₂
  entries-more x y = does_within _ (omega arith) (does_then (λ T U h g. times_at_end h g) x y)

  -- the reading has stopped, so it has for all the entries that are left
  pub entries-stopped : {z : At} {w w' : List ℕ} (n : ℕ) → i ≤ n → (z.c.why ≡ 0 → ⊥) → Does (i * 3) 0 (Times f 1 i s) a z w w' → Does (n * 3) 0 (Times f 1 n s) a z w w'
  entries-stopped n l h x = does_within _ (omega arith) (does_as (λ T g. times-stopped l h g) x)

same-list : (b : Bool) (t : ℕ) → many 1 256 (entry_of b t) ≡ list_of b t
same-list true t = refl
same-list false t = refl

takes_many : {f : Fmt} {s : List ℕ} {c d : Cursor} {T : ℕ → List Rec} (g : Got ℕ) → Sized rows.applications s c g → Times f 1 g.v s g.c d T → Takes (many 1 256 f) s c d T
unfolding read lowest highest
takes_many {f} {s} g z h = record { took = λ x. z.size (λ k e q. times (λ i p. read f (x.0, i) (bit_of s) e p) 1 k q) (h.took x) }

pub does_list : (b : Bool) {t : ℕ} {s : List ℕ} {a z : At} {w w' : List ℕ} (g : Got ℕ) → Sized rows.applications s a.c g → Does (g.v * 3) 0 (Times (entry_of b t) 1 g.v s) (behind g a) z w w' → Does 1536 0 (Takes (list_of b t) s) a z w w'
does_list b {t} g z x =
    let few = z.few in
    let y = does_within 1536 (omega arith) x in
    rw (← (same-list b t)) record { recs = y.recs; reads = takes_many g z y.reads; told = y.told }
