-- Named places, published ones and procedures: their records, what telling them needs, and what their readers read.
use Rattle.std.specs.Prelude.{List, ◌∷◌, ◌++◌, ℕ, ◌<◌, Option, None, Some}
use Rattle.atn.specs.Format.{Fmt, text, first, seq, end, ◌⨾◌, ◌⨾?◌}
use Rattle.atn.specs.Reading.{Rec, rec}
use Rattle.atn.specs.Messages as message
use Rattle.atn.specs.Tags as tag
use Rattle.cursor.specs.declared.place.Cursor.{Cursor}
use Rattle.cursor.specs.declared.place.Got.{Got}
use Rattle.character_strings.specs.declared.Text.{Text}
use Rattle.cursor.specs.Place.{Takes}
use Rattle.field_ranges.specs.Ends.{lowest, highest}
use Rattle.character_strings.specs.Texts.{text_recs, InFrame}
use Rattle.named_places.specs.declared.Named.{Named}
use Rattle.named_places.specs.declared.PublishedKind.{PublishedKind}
use Rattle.named_places.specs.declared.PublishedKind.TheVariants.{Fix, Navaid}
use Rattle.named_places.specs.declared.Published.{Published}
use Rattle.named_places.specs.declared.Procedure.{Procedure}
use Rattle.angles.specs.Angles.{if_there, maybe_pair_recs}

-- a text that can be told: its characters are in the frame, and few
pub record Held (s : List ℕ) (x : Text) : Type 0 where
  pub few : x.len < 512
  pub there : InFrame 7 s x

-- so can one that may be absent
abbrev pub HeldIfThere : List ℕ → Option Text → Type 0
HeldIfThere s None = Unit {0}
HeldIfThere s (Some x) = Held s x

---------------------------------------------------------------- records

unfoldable pub named_recs : ℕ → List ℕ → Named → ℕ → List Rec
named_recs t s v n = text_recs t n s v.name ++ maybe_pair_recs v.place n

-- its number, and the tag of its name
abbrev pub published_kind : PublishedKind → ℕ
published_kind Fix = 0
published_kind Navaid = 1

abbrev pub published_tag : PublishedKind → ℕ
published_tag Fix = tag.published_fix
published_tag Navaid = tag.published_navaid

unfoldable pub published_recs : List ℕ → Published → ℕ → List Rec
published_recs s v n = rec tag.published n (published_kind v.kind) 0 v.at ∷ named_recs (published_tag v.kind) s v.named n

-- tags of the kind, the name and the transition
unfoldable pub procedure_recs : ℕ → ℕ → ℕ → List ℕ → Procedure → ℕ → List Rec
procedure_recs t u w s v n = rec t n v.kind 0 v.at ∷ (text_recs u n s v.name ++ if_there (λ x. text_recs w n s x) v.transition)

---------------------------------------------------------------- readers

-- a named place by the row of its sizes
abbrev pub named_by : ℕ → ℕ → Fmt
named_by t k = seq (text t 128 (first 0) (lowest k) (highest k) ⨾ message.latlon ⨾? end)

pub record NamedPlaces (k : ℕ) (s : List ℕ) (c : Cursor) (r : Got Named) : Type 0 where
  pub reads : (t : ℕ) → Takes (named_by t k) s c r.c (named_recs t s r.v)
  -- whatever was read
  pub held : Held s r.v.name

pub record PublishedPlaces (s : List ℕ) (c : Cursor) (r : Got Published) : Type 0 where
  pub reads : Takes message.published s c r.c (published_recs s r.v)
  -- whatever was read
  pub held : Held s r.v.named.name

pub record Procedures (s : List ℕ) (c : Cursor) (r : Got Procedure) : Type 0 where
  pub reads : (t u v : ℕ) → Takes (message.procedure t u v) s c r.c (procedure_recs t u v s r.v)
  -- whatever was read
  pub held_name : Held s r.v.name
  pub held_transition : HeldIfThere s r.v.transition
