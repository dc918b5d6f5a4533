pub mod TextPlan
