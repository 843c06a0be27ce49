-- A name is given exactly for a clean forward message, and is its identifier.
use mathlib.Core.Path.{◌≡◌, refl, ap, ◌∙◌}
use mathlib.Core.Bool.{Bool, true, false, cond, ◌&&◌}
use mathlib.Core.Logic.{inl, inr}
use mathlib.Core.List.{List}
use Prim.Native.Nat.{ℕ, zero, suc}
use native.Mathlib.Omega.{arith}
use lib.ListN.{length}
use Rattle.x691.specs.Bits.{bit_of, uint, Spells}
use Rattle.x691.specs.Types.{Value}
use Rattle.x691.specs.Encoding.{index, encode}
use Rattle.x691.specs.Range.{InRange}
use Rattle.atn.specs.Format.{type_of}
use Rattle.atn.specs.Entries.{Reply, accept, ran_out, badly, unsupplied, read_frame, frame_fits, table_fits}
use Rattle.atn.specs.Messages.{forward, ground_pdus}
use Rattle.atn.specs.Reading.{Rec}
use Rattle.atn.specs.Told.{tell, tell_fields, tell_pick}
use Rattle.atn.proofs.Demands.{clean-message}
use Rattle.forward_names.specs.declared.Named.{Named}
use Rattle.forward_names.specs.Names.{nameless, name_in, name_of, forward_name}
use Rattle.forward_names.specs.Forwarded.{uplink, identifier_of, Forwards, name_for, Identifies}
use Rattle.forward_names.proofs.HeaderLaws.{identified, forward-message}

abbrev outcome : Bool → Bool → Reply → Named
outcome t u r = cond t (cond u (name_of r) (nameless 2 0)) (nameless 1 0)

module _ (s down up : List ℕ) where
  -- the records of a forward message name it
  told-name : (p : ℕ) (v : Value (type_of (forward down up))) → InRange (type_of (forward down up)) v → name_in p (tell (ground_pdus down up) (uplink down up v) (0, 0) 0) ≡ name_for p (identifier_of down up v)
  unfolding name_in tell tell_fields tell_pick index
  told-name p v g = identified p _ v.0 _ g.0

  -- and those of no other message
  of_clean : (p : ℕ) (R : List Rec) → read_frame (ground_pdus down up) s ≡ accept false p 0 R → (name_in p R).number ≡ 0 → Identifies s down up (name_in p R)
  unfolding name_in tell tell_pick index
  of_clean p R clean h = let m = clean-message (ground_pdus down up) s p R clean in go m.val m.in_range m.spelt m.long m.recs
    where
      go : (c : Value (type_of (ground_pdus down up))) → InRange (type_of (ground_pdus down up)) c → Spells (bit_of s) 0 (encode (type_of (ground_pdus down up)) c) → p ≡ length (encode (type_of (ground_pdus down up)) c) → R ≡ tell (ground_pdus down up) c (0, 0) 0 → Identifies s down up (name_in p R)
      go (inl v) g b l e = absurd (let y : ◌≡◌ {A = ℕ} 19 0 = rw e at h in omega arith)
      go (inr (inl v)) g b l e = absurd (let y : ◌≡◌ {A = ℕ} 19 0 = rw e at h in omega arith)
      go (inr (inr (inl v))) g b l e = absurd (let y : ◌≡◌ {A = ℕ} 19 0 = rw e at h in omega arith)
      go (inr (inr (inr (inl v)))) g b l e = absurd (let y : ◌≡◌ {A = ℕ} 19 0 = rw e at h in omega arith)
      go (inr (inr (inr (inr (inl v))))) g b l e = rw (e, told-name p v g) (record { message = v; forwards = record { in_range = g; spelt = b; long = l; clean = clean ∙ ap (accept false p 0) e }; is = refl })
      go (inr (inr (inr (inr (inr (inl v)))))) g b l e = absurd (let y : ◌≡◌ {A = ℕ} 19 0 = rw e at h in omega arith)
      go (inr (inr (inr (inr (inr (inr c)))))) g b l e = absurd c

  -- a name is given only for a clean forward message
  pub named : (forward_name s down up).number ≡ 0 → Identifies s down up (forward_name s down up)
  unfolding forward_name name_of
  named h = go (frame_fits s) (table_fits down && table_fits up) (read_frame (ground_pdus down up) s) refl h
    where
      go : (t u : Bool) (r : Reply) → read_frame (ground_pdus down up) s ≡ r → (outcome t u r).number ≡ 0 → Identifies s down up (outcome t u r)
      go false u r q z = absurd (omega arith)
      go true false r q z = absurd (omega arith)
      go true true (accept false p zero R) q z = of_clean p R q z
      go true true (accept false p (suc m) R) q z = absurd (omega arith)
      go true true (accept true p m R) q z = absurd (omega arith)
      go true true (ran_out p lacked) q z = absurd (omega arith)
      go true true (badly p) q z = absurd (omega arith)
      go true true (unsupplied p) q z = absurd (omega arith)

  -- and for each in a frame that fits, with tables that do: "without a name" is said of none
  module _ (fits : frame_fits s ≡ true) (tables : (table_fits down && table_fits up) ≡ true) where
    pub each-named : {p : ℕ} {v : Value (type_of (forward down up))} → Forwards s down up p v → forward_name s down up ≡ name_for p (identifier_of down up v)
    unfolding forward_name name_of
    each-named {p} {v} f = rw (fits, tables, f.clean) (told-name p v f.in_range)

    -- by the bits of the index, 4 being the forward message
    pub index-named : {p : ℕ} {R : List Rec} → read_frame (ground_pdus down up) s ≡ accept false p 0 R → uint (bit_of s) 1 3 ≡ 4 → (forward_name s down up).number ≡ 0
    unfolding forward_name name_of
    index-named {p} {R} clean i = rw (fits, tables, clean) (ap (λ (n : Named). n.number) (forward-message down up s clean i))
