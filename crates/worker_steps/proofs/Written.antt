-- The records that the log writer wrote, played on the keepers' data. Records before a switch at the tick of an open image
-- may be left out.
use Rattle.std.proofs.Common.{arith, ◌≡◌, ◌⊎◌, inl, inr, ℕ, ◌+◌, ◌<◌, ◌≤◌, Bool, true, false, List, [], ◌∷◌, ◌++◌, length, Option, Some, None, refl, ap, ◌∙◌, subst, append-nil}
use Rattle.std.specs.Prelude.{Contains, IfSome, max}
use Rattle.std.proofs.lemmas.List.{append_assoc, length-append}
use Rattle.world_actions.specs.declared.action.Action.{Action}
use Rattle.image_files.specs.Images.{Images}
use Rattle.action_log.specs.Logs.{Logs, switched_to}
use Rattle.action_log.specs.LogSteps.{is_idle}
use Rattle.action_log.specs.Cover.{Covers, has_tick}
use Rattle.action_log.specs.declared.answer.LogAnswer.TheVariants as answer
use Rattle.action_log.specs.declared.record.Record.{Record}
use Rattle.action_log.specs.declared.record.Record.TheVariants as records
use Rattle.recovery.specs.Follow.{FollowsFrom, Reaches, LeadsTo, LogsFollow, FollowMarks, BeginFrom, RiseFrom, base_in, coming, round_tick}
use Rattle.recovery.specs.Events.{with_work, IsKept}
use Rattle.workers.specs.Covering.{BeginsAt, LeavesOut}
use Rattle.workers.specs.Logging.{LogContent, content_in, after_records}
use Rattle.worker_steps.proofs.Below.{Laws}

-- the first record that isn't left out, and those before it
record Next (covers : List ℕ) (all : List Record) (first : Record) (logged : List Record) : Type 0 where
  run : List Record
  behind : List Record
  split : all ≡ run ++ first ∷ behind
  left : LeavesOut covers behind logged
  why : (run ≡ []) ⊎ BeginsAt covers (first ∷ logged)

next_of : (covers : List ℕ) (all : List Record) (first : Record) (logged : List Record) → LeavesOut covers all (first ∷ logged) → Next covers all first logged
next_of covers [] first logged none = absurd (let e : first ∷ logged ≡ [] = none in cc)
next_of covers (x ∷ all) first logged (inl kept) =
    let same : first ∷ logged ≡ x ∷ kept.0 = kept.1 in
    let one : x ≡ first = cc in
    let rest : kept.0 ≡ logged = cc in
    record { run = []; behind = all; split = ap (λ r. r ∷ all) one; left = subst (LeavesOut covers all) rest kept.2; why = inl refl }
next_of covers (x ∷ all) first logged (inr out) =
    let more = next_of covers all first logged out.1 in
    record { run = x ∷ more.run; behind = more.behind; split = ap (λ l. x ∷ l) more.split; left = more.left; why = inr out.0 }

-- the content of the segments with no group in work
abbrev pub content_kept : Logs → LogContent
content_kept logs = record { before = logs.before; base = logs.base; ticks = logs.kept }

pub reported_idle : (logs : Logs) → logs.pending ≡ [] → content_in logs ≡ content_kept logs
reported_idle logs none = ap (λ l. record { before = logs.before; base = logs.base; ticks = l }) (ap (λ p. logs.kept ++ p) none ∙ append-nil logs.kept)

module _ (laws : Laws) (origin : List ℕ) (ticks : List (List Action)) (images : Images) (covers : List ℕ) (opened : (tick : ℕ) → Contains covers tick → tick ≤ images.tick) where
  abbrev pub KeepsLog : Logs → List Record → Type 0
  KeepsLog logs queue = (acknowledged : ℕ) × IsKept origin ticks acknowledged images logs queue

  covered_by : (logs : Logs) (run : List Record) (tick : ℕ) (behind : List Record) (some : Bool) → has_tick run ≡ some → tick ≤ images.tick → is_idle logs
      → KeepsLog logs (run ++ records.Switch tick ∷ behind) → KeepsLog logs (records.Switch tick ∷ behind)
  covered_by logs run tick behind false has le idle k =
      let covers_it : Covers logs (run ++ records.Switch tick ∷ behind) tick run (records.Switch tick ∷ behind) = record { idle = idle; in_front = refl; behind = behind; next = refl } in
      (k.0, laws.events.cover origin ticks k.0 images logs (run ++ records.Switch tick ∷ behind) tick answer.Working (records.Switch tick ∷ behind) k.1 le (run, covers_it, has))
  covered_by logs run tick behind true has le idle k =
      let covers_it : Covers logs (run ++ records.Switch tick ∷ behind) tick run (records.Switch tick ∷ behind) = record { idle = idle; in_front = refl; behind = behind; next = refl } in
      (max k.0 tick, laws.events.cover origin ticks k.0 images logs (run ++ records.Switch tick ∷ behind) tick (answer.Acked tick) (records.Switch tick ∷ behind) k.1 le (run, covers_it, has, refl))

  covered : (logs : Logs) (run : List Record) (first : Record) (logged behind : List Record) → is_idle logs → (run ≡ []) ⊎ BeginsAt covers (first ∷ logged)
      → KeepsLog logs (run ++ first ∷ behind) → KeepsLog logs (first ∷ behind)
  covered logs run first logged behind idle (inl none) k = subst (λ r. KeepsLog logs (r ++ first ∷ behind)) none k
  covered logs run (records.Tick tick) logged behind idle (inr at) k = absurd at
  covered logs run (records.Switch tick) logged behind idle (inr at) k = covered_by logs run tick behind (has_tick run) refl (opened tick at) idle k

  -- the first record that is written comes first
  brought : (logs : Logs) (all rest : List Record) (first : Record) (logged : List Record) → is_idle logs → (n : Next covers all first logged)
      → KeepsLog logs (all ++ rest) → KeepsLog logs (first ∷ (n.behind ++ rest))
  brought logs all rest first logged idle n k =
      covered logs n.run first logged (n.behind ++ rest) idle n.why
      (subst (KeepsLog logs) (append_assoc n.run (first ∷ n.behind) rest) (subst (λ l. KeepsLog logs (l ++ rest)) n.split k))

  -- the log as far as it is written, with no job in work
  pub record WrittenOn (logs : Logs) (given more rest : List Record) : Type 0 where
    pub next : Logs
    pub left : List Record
    pub keeps : KeepsLog next (left ++ rest)
    pub idle : is_idle next
    pub leaves : LeavesOut covers left more
    pub reported : content_kept next ≡ after_records (content_kept logs) given

  pub written : (given all more rest : List Record) (logs : Logs) → KeepsLog logs (all ++ rest) → is_idle logs → LeavesOut covers all (given ++ more) → WrittenOn logs given more rest
  written [] all more rest logs k idle leaves = record { next = logs; left = all; keeps = k; idle = idle; leaves = leaves; reported = refl }
  written (records.Tick tick ∷ given) all more rest logs k idle leaves =
      let n = next_of covers all (records.Tick tick) (given ++ more) leaves in
      let first = brought logs all rest (records.Tick tick) (given ++ more) idle n k in
      let after : Logs = record logs { kept = logs.kept ++ tick.list ∷ [] } in
      let on = written given n.behind more rest after (first.0, laws.whole.written origin ticks first.0 images logs tick (n.behind ++ rest) first.1 idle) idle n.left in
      record { next = on.next; left = on.left; keeps = on.keeps; idle = on.idle; leaves = on.leaves; reported = on.reported }
  written (records.Switch tick ∷ given) all more rest logs k idle leaves =
      let n = next_of covers all (records.Switch tick) (given ++ more) leaves in
      let first = brought logs all rest (records.Switch tick) (given ++ more) idle n k in
      let begun : Logs = record logs { switch = Some tick } in
      let after : Logs = switched_to begun tick in
      let on = written given n.behind more rest after (
        first.0,
        laws.whole.switched origin ticks first.0 images begun tick (n.behind ++ rest)
            (laws.whole.switch origin ticks first.0 images logs tick (n.behind ++ rest) first.1 idle) refl,
      ) (refl, refl) n.left in
      record { next = on.next; left = on.left; keeps = on.keeps; idle = on.idle; leaves = on.leaves; reported = on.reported }

  -- the same with the switch in work taken
  pub record TakenUp (logs : Logs) (given : List Record) (switch : Option ℕ) : Type 0 where
    pub next : Logs
    pub queue : List Record
    pub keeps : KeepsLog next queue
    pub none : next.pending ≡ []
    pub switch_is : next.switch ≡ switch
    pub reported : content_kept next ≡ after_records (content_kept logs) given

  pub taken_up : (given all more rest : List Record) (logs : Logs) (switch : Option ℕ) → KeepsLog logs (all ++ rest)
      → is_idle logs → LeavesOut covers all (given ++ with_work switch more) → TakenUp logs given switch
  taken_up given all more rest logs None k idle leaves =
      let on = written given all more rest logs k idle leaves in
      record { next = on.next; queue = on.left ++ rest; keeps = on.keeps; none = on.idle.0; switch_is = on.idle.1; reported = on.reported }
  taken_up given all more rest logs (Some tick) k idle leaves =
      let on = written given all (records.Switch tick ∷ more) rest logs k idle leaves in
      let n = next_of covers on.left (records.Switch tick) more on.leaves in
      let first = brought on.next on.left rest (records.Switch tick) more on.idle n on.keeps in
      record {
        next = record on.next { switch = Some tick };
        queue = n.behind ++ rest;
        keeps = (first.0, laws.whole.switch origin ticks first.0 images on.next tick (n.behind ++ rest) first.1 on.idle);
        none = on.idle.0;
        switch_is = refl;
        reported = on.reported;
      }

-- ---- the same segments, with or without a group in work

pub record SameReported (a l : Logs) : Type 0 where
  pub base : a.base ≡ l.base
  pub before : a.before ≡ l.before
  pub kept : a.kept ≡ l.kept ++ l.pending
  pub none : a.pending ≡ []
  pub switch : a.switch ≡ l.switch
  pub one_job : IfSome l.switch (λ _. l.pending ≡ [])

switch_same : (newest : ℕ) (a l : Logs) (o : Option ℕ) → a.base ≡ l.base → a.kept ≡ l.kept ++ l.pending → IfSome o (λ _. l.pending ≡ [])
    → IfSome o (λ tick. (a.base < tick) × (a.pending ≡ []) × Reaches (a.base + length a.kept) tick newest)
    → IfSome o (λ tick. (l.base < tick) × (l.pending ≡ []) × Reaches (l.base + length l.kept) tick newest)
switch_same newest a l None base kept none h = tt
switch_same newest a l (Some tick) base kept none h =
    let end : a.base + length a.kept ≡ l.base + length l.kept = omega (arith, base, ap length kept, length-append l.kept l.pending, ap length none) in
    (subst (λ n. n < tick) base h.0, none, subst (λ n. Reaches n tick newest) end h.2)

all_kept : (a l : Logs) → SameReported a l → a.kept ++ a.pending ≡ l.kept ++ l.pending
all_kept a l s = ap (λ p. a.kept ++ p) s.none ∙ append-nil a.kept ∙ s.kept

pub follows_same : (ticks : List (List Action)) (acknowledged k newest : ℕ) (a l : Logs) → SameReported a l
    → LogsFollow ticks acknowledged newest a → (k ≤ l.base + length l.kept) ⊎ (k ≤ newest) → LogsFollow ticks k newest l
follows_same ticks acknowledged k newest a l s f reached = record {
  taken = subst (λ b. FollowsFrom ticks b (l.kept ++ l.pending)) s.base (subst (FollowsFrom ticks a.base) (all_kept a l s) f.taken);
  acknowledges = reached;
  before = subst (λ b. LeadsTo ticks newest b l.before) s.base (subst (LeadsTo ticks newest a.base) s.before f.before);
  switch =
      switch_same newest a l l.switch s.base s.kept s.one_job (subst (λ o. IfSome o (λ tick. (a.base < tick) × (a.pending ≡ []) × Reaches (a.base + length a.kept) tick newest)) s.switch f.switch);
}

pub marks_same : (later : List ℕ) (images : Images) (a l : Logs) → SameReported a l → FollowMarks later images a → FollowMarks later images l
marks_same later images a l s m =
    let whole = m.earlier ++ images.tick ∷ round_tick images.round in
    record {
      earlier = m.earlier;
      bases = subst (λ b. base_in l.before ++ b ∷ coming l.switch later ≡ whole) s.base
          (subst (λ o. base_in l.before ++ a.base ∷ coming o later ≡ whole) s.switch (subst (λ b. base_in b ++ a.base ∷ coming a.switch later ≡ whole) s.before m.bases));
      rising = subst (λ b. RiseFrom b (coming l.switch later)) s.base (subst (λ o. RiseFrom a.base (coming o later)) s.switch m.rising);
      in_order = subst (λ b. BeginFrom (b + length (l.kept ++ l.pending)) (coming l.switch later)) s.base
          (subst (λ o. BeginFrom (a.base + length (l.kept ++ l.pending)) (coming o later)) s.switch (subst (λ p. BeginFrom (a.base + length p) (coming a.switch later)) (all_kept a l s) m.in_order));
    }
