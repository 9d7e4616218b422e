-- The fields of a file in memory, and the way in which its state is stored.
use Rattle.std.specs.Prelude.{◌≡◌, ℕ, ◌<◌, ◌≤◌, List, Bool, length, refl}
use Rattle.std.specs.Coded.{Coded, code_by, coded×, coded_ℕ, coded_bool, coded_list}
use Rattle.std.proofs.Props.{props}
use mathlib.Core.HLevel.{Σ_prop_path}
use mathlib.Core.Path.{ap}
use base.Stored.{coded_sub}
use Rattle.disk_model.specs.FileState.{FileState, IsInOrder, Marked}

-- The file's lists are in order. No place before the first one that may be unsynced is unsynced.
-- There is room to make all of the content durable.
pub record IsKept (durable content : List ℕ) (unsynced : List Bool)
    (first_unsynced room : ℕ) : Type 0 where
  pub in_order : IsInOrder durable content unsynced
  pub front_durable : first_unsynced ≤ length durable
  pub front_synced : (place : ℕ) → place < first_unsynced → ¬ Marked unsynced place
  pub room_for_content : length content ≤ room

-- there is at most one proof of the order
pub in_order_prop : (durable content : List ℕ) (unsynced : List Bool)
    → IsProp (IsInOrder durable content unsynced)
in_order_prop durable content unsynced = hlevel props

-- the lists and the count of a state
abbrev Parts : Type 0
Parts = List ℕ × (List ℕ × (List Bool × ℕ))

-- the order of such parts
abbrev AreInOrder : Parts → Type 0
AreInOrder parts = IsInOrder parts.0 parts.1.0 parts.1.1.0

-- a state is stored as its fields
abbrev pub file_code : Coded FileState
file_code =
    code_by ((parts : Parts) × AreInOrder parts)
    (coded_sub
    (coded× (coded_list coded_ℕ)
    (coded× (coded_list coded_ℕ) (coded× (coded_list coded_bool) coded_ℕ))) AreInOrder
    (λ parts. in_order_prop parts.0 parts.1.0 parts.1.1.0))
    (λ file. ((file.durable, (file.content, (file.unsynced, file.faults))), file.in_order))
    (λ pair. record {
      durable = pair.0.0;
      content = pair.0.1.0;
      unsynced = pair.0.1.1.0;
      faults = pair.0.1.1.1;
      in_order = pair.1;
    })
    (λ _. refl)

-- a state from its parts
abbrev file_of : (durable content : List ℕ) (unsynced : List Bool) → ℕ
    → IsInOrder durable content unsynced → FileState
file_of durable content unsynced faults in_order = record {
  durable = durable;
  content = content;
  unsynced = unsynced;
  faults = faults;
  in_order = in_order;
}

-- states that have the same parts are the same
pub same_file : (a b : FileState) → a.durable ≡ b.durable → a.content ≡ b.content
    → a.unsynced ≡ b.unsynced → a.faults ≡ b.faults → a ≡ b
same_file a b durable content unsynced faults =
    let first : (parts : Parts)
    × AreInOrder parts = ((a.durable, (a.content, (a.unsynced, a.faults))), a.in_order) in
    let second : (parts : Parts)
    × AreInOrder parts = ((b.durable, (b.content, (b.unsynced, b.faults))), b.in_order) in
    let same : first
    ≡ second = Σ_prop_path (λ (parts : Parts). in_order_prop parts.0 parts.1.0 parts.1.1.0)
    (λ i. (durable i, (content i, (unsynced i, faults i)))) in
    ap (λ (pair : (parts : Parts) × AreInOrder parts).
    file_of pair.0.0 pair.0.1.0 pair.0.1.1.0 pair.0.1.1.1 pair.1) same
