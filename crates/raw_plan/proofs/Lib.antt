mod PlanEnds
