-- All that is known from moves and their answers.
use Rattle.std.specs.Prelude.{ℕ, List, [], ◌∷◌, Bool, true, false, ◌||◌}
use Rattle.world_core.specs.declared.moves.Move.{Move}
use Rattle.world_core.specs.declared.moves.Answer.{Answer}
use Rattle.world_core.specs.History.{History, no_history, history_after, acknowledged_after, opens}
use Rattle.world_core.specs.Standing.{Standing, standing_at, standing_after}

pub record Past : Type 0 where
  pub history : History
  pub acknowledged : ℕ
  pub has_image : Bool
  pub standing : Standing

-- the past of a new core, on four empty files
abbrev pub fresh_past : Past
fresh_past = record {
  history = no_history;
  acknowledged = 0;
  has_image = false;
  standing = standing_at 0 0 true false false;
}

abbrev pub past_after : Past → Move → Answer → Past
past_after past asked given = record {
  history = history_after past.history asked given;
  acknowledged = acknowledged_after past.acknowledged given;
  has_image = opens given || past.has_image;
  standing = standing_after past.standing past.history.running asked given;
}

abbrev pub past_of : Past → List Move → List Answer → Past
past_of past [] answers = past
past_of past (asked ∷ moves) [] = past
past_of past (asked ∷ moves) (given ∷ answers) = past_of (past_after past asked given) moves answers
