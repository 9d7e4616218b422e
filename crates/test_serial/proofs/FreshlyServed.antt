-- A world that is made and opened at once is one of zeros.
use Rattle.std.proofs.lemmas.List.{length-replicate}
use Rattle.std.proofs.Common.{◌≡◌, ℕ, zero, suc, Bool, List, [], take, replicate, Result, Ok, refl, sym, ap, subst, ◌∙◌}
use Rattle.world_actions.specs.declared.action.Action.{Action}
use Rattle.world_actions.specs.declared.refusal.Refusal.{Refusal}
use Rattle.disk_model.specs.declared.four_files.FourFiles.{FourFiles}
use Rattle.disk_model.specs.declared.disk.Disk.{Ghosts}
use Rattle.engine.proofs.Following.{no_action}
use Rattle.serial_world.specs.declared.state.SerialState.{SerialState}
use Rattle.serial_world.specs.Runs.{words_of, Serves}
use Rattle.world_start.specs.Opening.{AreSynced}
use Rattle.world_start.specs.Fresh.{AreMade}
use Rattle.serial_world.specs.Opened.{IsOpened}
use Rattle.test_serial.specs.Created.{IsServedFresh}

none_taken : (n : ℕ) (none : List (List Action)) → none ≡ [] → take n none ≡ []
none_taken zero none e = subst (λ (l : List (List Action)). take 0 l ≡ []) (sym e) refl
none_taken (suc n) none e = subst (λ (l : List (List Action)). take (suc n) l ≡ []) (sym e) refl

same_words : (a b : List ℕ) → ◌≡◌ {A = Result (List ℕ) Refusal} (Ok a) (Ok b) → a ≡ b
same_words a b e = cc

module _ {C D : Type 0} (disk : Ghosts D) where
  pub served_fresh : (files made : FourFiles D) (cells : ℕ) (s : SerialState C D) → AreMade disk files cells made → AreSynced disk files → IsOpened disk made s → IsServedFresh disk cells s
  served_fresh files made cells s m synced opened =
      let on = opened.serves (replicate cells 0) [] 0 (m.synced synced) (m.sound synced) in
      let serves : Serves disk s (replicate cells 0) [] = subst (λ (ticks : List (List Action)). Serves disk s (replicate cells 0) ticks) (none_taken opened.recovery.tick [] refl) on in
      let words = words_of disk s in
      record {
        cells_are = serves.follows.cells ∙ length-replicate cells 0;
        words = sym (same_words (replicate cells 0) words (serves.follows.after_ended ∙ ap (λ w. Ok w) (no_action serves.follows.last words s.engine.running serves.running serves.follows.live)));
        ended = serves.follows.ended;
        acked = opened.acked ∙ sym opened.ended ∙ serves.follows.ended;
        serves = serves;
      }
